mod Verdicts
mod Tellings
