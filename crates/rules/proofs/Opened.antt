-- Every definition of the rules, to be opened at once: a worked example says `unfolding rules` and computes.
use Rattle.rules.specs.Bytes
use Rattle.rules.specs.Numbers
use Rattle.rules.specs.Bundle
use Rattle.rules.specs.Names
use Rattle.rules.specs.Json.Text as JsonText
use Rattle.rules.specs.Json.Numbers as JsonNumbers
use Rattle.rules.specs.Json.Strings as JsonStrings
use Rattle.rules.specs.Json.Values as JsonValues
use Rattle.rules.specs.Json.Fields as JsonFields
use Rattle.rules.specs.Lines
use Rattle.rules.specs.Actions
use Rattle.rules.specs.Live
use Rattle.rules.specs.History
use Rattle.rules.specs.Starts
use Rattle.rules.specs.Marker
use Rattle.rules.specs.Gate
use Rattle.rules.specs.Query
use Rattle.rules.specs.Picking
use Rattle.rules.specs.Manifests
use Rattle.rules.specs.Rooms
use Rattle.rules.specs.Reading
use Rattle.rules.specs.Due
use Rattle.rules.specs.Keeping
use Rattle.rules.specs.Agreement
use Rattle.rules.specs.Cleaning
use Rattle.rules.specs.Program
use Rattle.rules.specs.Samples
use Rattle.rules.specs.Edges
use Rattle.rules.specs.Examples
use Rattle.rules.specs.ForeignColumns
use Rattle.rules.specs.SecondMerges
use Rattle.rules.specs.PupilNumbers

unfoldable pub in_bytes : Unit {0}
unfolding Bytes.ascii Bytes.is_some Bytes.first Bytes.among Bytes.is_empty Bytes.keep_if Bytes.same Bytes.begins Bytes.order Bytes.is_less Bytes.is_equal
    Bytes.is_more Bytes.holds Bytes.distinct Bytes.all_among Bytes.same_set Bytes.same_each Bytes.firsts
in_bytes = tt

unfoldable pub in_numbers : Unit {0}
unfolding Numbers.most Numbers.is_digit Numbers.decimal_from Numbers.decimal Numbers.little Numbers.spell_before Numbers.spell
in_numbers = tt

unfoldable pub in_bundle : Unit {0}
unfolding Bundle.most_bytes Bundle.most_entries Bundle.entry_bytes Bundle.field Bundle.entry_of Bundle.entries Bundle.zeros Bundle.unpadded Bundle.name_in
    Bundle.ascending Bundle.files_from Bundle.files_of Bundle.bundle
in_bundle = tt

unfoldable pub in_names : Unit {0}
unfolding Names.numbered Names.with_ending Names.name_of Names.version_in Names.checkpoint_in Names.is_marker Names.is_too_large Names.is Names.any_too_large
in_names = tt

unfoldable pub in_json_text : Unit {0}
unfolding JsonText.spelled JsonText.is_ws JsonText.ws JsonText.byte JsonText.byte_in JsonText.word
in_json_text = tt

unfoldable pub in_json_numbers : Unit {0}
unfolding JsonNumbers.digits JsonNumbers.digits1 JsonNumbers.minus JsonNumbers.int JsonNumbers.frac JsonNumbers.sign JsonNumbers.exp JsonNumbers.number
    JsonNumbers.whole
in_json_numbers = tt

unfoldable pub in_json_strings : Unit {0}
unfolding JsonStrings.tails JsonStrings.leads JsonStrings.is_plain JsonStrings.multibyte JsonStrings.unescaped JsonStrings.hex_digit JsonStrings.hex_digits
    JsonStrings.code_unit JsonStrings.surrogate JsonStrings.paired JsonStrings.code_point JsonStrings.utf8 JsonStrings.short_escape JsonStrings.escaped
    JsonStrings.char JsonStrings.chars JsonStrings.string
in_json_strings = tt

unfoldable pub in_json_values : Unit {0}
unfolding JsonValues.opened_by JsonValues.opening JsonValues.closed_by JsonValues.closing JsonValues.and_then JsonValues.after_item JsonValues.items
    JsonValues.items_behind JsonValues.list JsonValues.colon JsonValues.member JsonValues.contents JsonValues.elements JsonValues.scalar JsonValues.value_by
    JsonValues.value JsonValues.alone JsonValues.object_of JsonValues.array_of
in_json_values = tt

unfoldable pub in_json_fields : Unit {0}
unfolding JsonFields.under JsonFields.sole JsonFields.once JsonFields.is_null JsonFields.sole_or_none JsonFields.optional JsonFields.absent JsonFields.string_of
    JsonFields.unquoted JsonFields.string_or_null JsonFields.bool_of JsonFields.if_there JsonFields.strings JsonFields.strings_of JsonFields.string_at
    JsonFields.whole_at
in_json_fields = tt

unfoldable pub in_lines : Unit {0}
unfolding Lines.onto Lines.lines Lines.any_object
in_lines = tt

unfoldable pub in_actions : Unit {0}
unfolding Actions.in_line Actions.in_action Actions.in_field Actions.path_at Actions.pairs Actions.partition_values_at Actions.add_of Actions.unstated
    Actions.protocol_number_at Actions.or_empty Actions.features_at Actions.protocol_of Actions.most_columns Actions.id_at Actions.meta_data_of Actions.no_skip
    Actions.skip_count_in Actions.or_at_once Actions.skip_of Actions.key_of
    Actions.action_by Actions.only_one Actions.line_member Actions.action Actions.is_line Actions.or_nothing Actions.path_written Actions.path_in
    Actions.path_shown
    Actions.records_of Actions.records_in Actions.records_shown
in_actions = tt

unfoldable pub in_path_places : Unit {0}
unfolding JsonValues.member_left JsonValues.members_left Actions.path_left Actions.start_of Actions.start_in Actions.path_start Actions.path_place
    Examples.places
in_path_places = tt

unfoldable pub in_live : Unit {0}
unfolding Live.most_live Live.path_of Live.skipped Live.put_beside Live.take_if Live.change_if Live.put Live.take_out Live.change
in_live = tt

unfoldable pub in_history : Unit {0}
unfolding History.no_table History.fits History.added History.effect History.within_limit History.act History.read_line History.read_lines History.read_file
    History.said_nothing History.say_table History.say_protocol History.say History.zero_lines History.or_unstated History.read_zero
in_history = tt

unfoldable pub in_starts : Unit {0}
unfolding Starts.find Starts.log_of Starts.every_line Starts.well_formed Starts.is_table Starts.says_table Starts.is_start Starts.if_start Starts.start_at
    Starts.onward_by Starts.by_file Starts.by_start
    Starts.way_to Starts.other_way_to Starts.history_to Starts.nothing_live Starts.follow
in_starts = tt

unfoldable pub in_marker : Unit {0}
unfolding Marker.is_json Marker.marker_version Marker.marked Marker.climb_by Marker.climb Marker.or_zero Marker.latest
in_marker = tt

unfoldable pub in_gate : Unit {0}
unfolding Gate.known_reader Gate.known_writer Gate.reader_names Gate.writer_names Gate.gate Gate.writable
in_gate = tt

unfoldable pub in_query : Unit {0}
unfolding Query.most_digits Query.in_range Query.positive Query.negative Query.digits_in Query.number_of Query.is_number Query.is_out_of_range Query.as_of
    Query.op_of
    Query.fits Query.stands Query.condition_in Query.conditions_in Query.column_of Query.most_query Query.most_conditions Query.query
in_query = tt

unfoldable pub in_picking : Unit {0}
unfolding Picking.meets Picking.order_of_numbers Picking.meets_number Picking.meets_as Picking.value_at Picking.meets_value Picking.meets_all Picking.picked
    Picking.out_of_as Picking.out_of Picking.any_out_of Picking.in_range_all
in_picking = tt

unfoldable pub in_manifests : Unit {0}
unfolding Manifests.bounds_of Manifests.columns_in Manifests.columns_of Manifests.or_no_bounds Manifests.manifest_of Manifests.manifests_in Manifests.manifests
    Manifests.most_manifests Manifests.none_meets Manifests.outside Manifests.outside_numbers Manifests.outside_as Manifests.both_there Manifests.drops
    Manifests.dropped Manifests.kept_from Manifests.slash Manifests.has_slash Manifests.before_last_slash Manifests.stands_as_is Manifests.directory
in_manifests = tt

unfoldable pub in_rooms : Unit {0}
unfolding Rooms.rows_room Rooms.kept_room Rooms.names_room Rooms.filled Rooms.leaves Rooms.row_width Rooms.row_numbers Rooms.rows_numbers
in_rooms = tt

unfoldable pub in_reading : Unit {0}
unfolding Reading.version_asked Reading.state_within Reading.listing Reading.listing_within Reading.listing_at Reading.history_listing Reading.reading
    Reading.room_after_reading
in_reading = tt

unfoldable pub in_due : Unit {0}
unfolding Due.is_due Due.due_rows Due.due_listing Due.due
in_due = tt

unfoldable pub in_keeping : Unit {0}
unfolding Keeping.keeping Keeping.room_after_keeping
in_keeping = tt

unfoldable pub in_agreement : Unit {0}
unfolding Agreement.agree_value Agreement.agree_found Agreement.agree_on Agreement.agree_pairs Agreement.agree_records Agreement.agree_facts
    Agreement.agree_skip
    Agreement.agree_row Agreement.agree_rows Agreement.agree_protocols Agreement.agree_tables Agreement.agree
in_agreement = tt

unfoldable pub in_cleaning : Unit {0}
unfolding Cleaning.is_between Cleaning.is_old Cleaning.may_go Cleaning.named Cleaning.compared Cleaning.cleaned_by Cleaning.cleaned_at Cleaning.enough
    Cleaning.cleaning Cleaning.names_after_cleaning Cleaning.table_after_cleaning
in_cleaning = tt

unfoldable pub in_program : Unit {0}
unfolding Program.most_input Program.listed Program.yes_no Program.or_dash Program.line_of Program.header Program.row_line Program.row_lines
    Program.refusal_line
    Program.printed_by Program.printed
in_program = tt

unfoldable pub in_samples : Unit {0}
unfolding Samples.quotes Samples.json Samples.body_of Samples.file Samples.little_of Samples.padded Samples.contents_of Samples.bodies_of Samples.bundle_of
in_samples = tt

unfoldable pub in_edges : Unit {0}
unfolding Edges.says_state Edges.marks_of Edges.says_marks Edges.says_table Edges.says_listing Edges.says_numbers Edges.rule Edges.add_of Edges.remove_of
    Edges.v0
    Edges.v1 Edges.v3 Edges.table_of
    Edges.checkpoint_at_two Edges.c2 Edges.bare2
    Edges.m2 Edges.edges
in_edges = tt

unfoldable pub in_names_and_numbers : Unit {0}
unfolding Edges.beside Edges.comparing
in_names_and_numbers = tt

unfoldable pub in_examples : Unit {0}
unfolding Examples.sized Examples.school Examples.listings Examples.protocolled Examples.reader Examples.cleanable Examples.agreeing Examples.sides
    Examples.having Examples.add_in Examples.tabled Examples.version_one Examples.renamed Examples.with_one Examples.from_two Examples.cleaned_with
    Examples.meta_data_later Examples.pupil Examples.pupils Examples.tempting Examples.manifest_list Examples.count_from Examples.state_of Examples.refusals
in_examples = tt

unfoldable pub in_foreign_columns : Unit {0}
unfolding ForeignColumns.keyed ForeignColumns.on_line_three ForeignColumns.without_columns ForeignColumns.keys ForeignColumns.strayed
    ForeignColumns.renamed_below ForeignColumns.held_to ForeignColumns.orders
in_foreign_columns = tt

unfoldable pub in_second_merges : Unit {0}
unfolding SecondMerges.skip_with SecondMerges.skip_a SecondMerges.repeated SecondMerges.of_a SecondMerges.said_of_a SecondMerges.skip_counts
    SecondMerges.retry_times SecondMerges.malformed_skips SecondMerges.effects SecondMerges.skipped_later SecondMerges.by_version SecondMerges.waiting
    SecondMerges.the_one SecondMerges.dues SecondMerges.compared_with SecondMerges.cleanings
in_second_merges = tt

unfoldable pub in_pupil_numbers : Unit {0}
unfolding PupilNumbers.numbered PupilNumbers.any_number PupilNumbers.picks_it PupilNumbers.picks_none PupilNumbers.values PupilNumbers.both
    PupilNumbers.both_turned PupilNumbers.too_long PupilNumbers.conditions PupilNumbers.good PupilNumbers.long PupilNumbers.in_two PupilNumbers.live_ones
    PupilNumbers.bounded PupilNumbers.on PupilNumbers.bounds
in_pupil_numbers = tt

unfoldable pub in_texts : Unit {0}
unfolding in_bytes in_numbers in_bundle in_names in_json_text in_json_numbers in_json_strings in_json_values in_json_fields in_lines in_actions in_path_places
in_texts = tt

unfoldable pub in_tables : Unit {0}
unfolding in_samples in_edges in_names_and_numbers in_examples in_foreign_columns in_second_merges in_pupil_numbers
in_tables = tt

unfoldable pub rules : Unit {0}
unfolding in_texts in_live in_history in_starts in_marker in_gate in_query in_picking in_manifests in_rooms in_reading in_due in_keeping in_agreement
    in_cleaning
    in_program in_tables
rules = tt
