pub mod Causes
pub mod Console
pub mod Guesses
pub mod HexBytes
pub mod ImageGuesses
pub mod ImageTexts
pub mod Services
pub mod Texts
