-- The laws of `picks` that belong to no one function.
-- how long OAM is by the length of the request
mod Lengths
