-- Laws and theorems. Each file stands on those above it.
--     Weights     THE THEOREM: a formula of which more terms wait than there may be links does not fit
--     Sizes       terms that are too large, part by part
--     PartTerms   the terms and variables of parts
--     FormulaTurns   reading a formula and a quantifier's variables, return by return
--     PartTurns   reading parts, turn by turn; a let
--     TextTurns   the formula of a whole text; THE THEOREM: what is too large does not fit
pub mod Weights
pub mod Sizes
pub mod PartTerms
pub mod FormulaTurns
pub mod PartTurns
pub mod TextTurns
