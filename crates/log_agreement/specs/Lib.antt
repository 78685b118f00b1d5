-- What the functions over two states ask for and promise, in the rules' terms.
pub mod Held
pub mod OneWay
pub mod Stating
