mod Pairwise
mod PartsCount
mod Unread
pub mod NoNotes
mod Opened
mod Answered
mod IssuerTasks
mod IssuerJobs
mod Sent
pub mod Lasting
mod Causes
mod Rows
mod Dones
mod Times
mod Run
mod OwnClocks
mod GivenBack
