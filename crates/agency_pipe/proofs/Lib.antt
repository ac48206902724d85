mod ItemLemmas
mod ListLemmas
mod ListedValues
mod OneReading
mod PlainMessages
mod Bytewise
mod Misheard
mod Greetings
mod Hearings
mod Saying
mod OneField
pub mod Sent
