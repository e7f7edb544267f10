-- What the contracts of this crate say of the walk of whole-term REFL as one loop.
--     Agenda   the frames of its stack, what is left to do, and what is known of them
pub mod Agenda
