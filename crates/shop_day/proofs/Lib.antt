pub mod TillJobs
pub mod JobsSent
