-- What is proved of runs.
-- numbers that rise between two bounds: their count says whether every number is there
pub mod Rising
-- the places that the draws of a step store
pub mod Places
-- a picture with places stored in it
pub mod Picture
-- what is known of any call and of its deed
pub mod Deeds
-- the sizes of what is lent stay
pub mod Kept
-- what the promises of `ppu` say of a call is what specs/Public says
pub mod Public
-- the one corruption call stands for the three
pub mod AsBefore
-- the start of a step, place by place
pub mod Views
-- where a run can stand, and the draws of a step from there
pub mod Phase
-- the end of a step from there
pub mod Onward
-- a whole step of a display that is on
pub mod Steps
-- what holds after any calls from a start
pub mod Invariant
-- statements 2 and 9 of specs/Demand: what a caller holds in hand
pub mod Answered
-- statements 1, 3, 4, 5 and 7: never 2, the count, the line's end, line 0, the mark
pub mod Demand
-- statement 6: each place once
pub mod Frame
-- statement 8: a picture torn by a switch-off
pub mod Torn
-- what the state keeps of a blanking
pub mod Blanked
-- statements 14 and 15: whole, but unseen; the first picture after a blanking
pub mod Unseen
-- statement 10: what the pictures held does not matter
pub mod Alike
-- statements 11 to 13 and 16: every number, frames and unseen pictures exist
pub mod Exists
-- all of them
pub mod All
-- a locked write is the unlocked one or none
pub mod Locks
