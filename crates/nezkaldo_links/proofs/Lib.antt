-- The theorem.
--     Links   WHAT THE NUMBER SAYS
pub mod Links
