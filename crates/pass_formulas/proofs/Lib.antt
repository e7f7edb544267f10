-- Laws. Each file stands on those above it.
--     ListLaws      lists that grow at their end
--     PassTurns     reading in one pass, turn by turn
pub mod ListLaws
pub mod PassTurns
