-- Laws of arithmetic modulo 256.
-- the wrapping helper serves for one more
pub mod Up
