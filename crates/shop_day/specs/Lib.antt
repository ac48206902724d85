pub mod TillJobs
