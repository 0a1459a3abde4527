-- The laws of `bound`.
-- what the window, the fetcher and the row that goes in mean for the numbers of the pipe
pub mod Filling
-- each draw lowers the number of draws left, whatever the window's condition
pub mod Potential
-- so does a run of draws, and as many as are left end the line
pub mod Line
-- the same of the draws of a step
pub mod Bursts
