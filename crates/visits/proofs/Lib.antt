-- Laws that the functions' proofs share. Each file stands on those above it.
--     StandingKept   what stands for a node stands in every longer bundle; what a visit adds
--     ListTurns      the visit to a list, turn by turn
--     TermTurns      the visit to a term, kind by kind
pub mod StandingKept
pub mod ListTurns
pub mod TermTurns
