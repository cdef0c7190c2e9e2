pub mod Sign
pub mod Spelling
pub mod Trie
pub mod Lexicon
pub mod Along
pub mod Rules
pub mod Levels
pub mod Points
