-- Laws and theorems. Each file stands on those above it.
--     KnownNames      names of declared symbols and variables: tests and propositions
--     LocalSorts      THE THEOREM: sorts can be judged node by node
--     TypingExactly   THE THEOREM: a formula has a term exactly where it is well sorted
--     TermSorts       the term of a well_sorted formula is well sorted
--     Records         the records of a well_sorted term: the bundle stays well formed, and the number stands for the term
--     SmallRecords    all their numbers are words of 32 bits
--     Nesting         a formula's term is nested at least as deep as the formula
--     Answers         THE THEOREM: an answer to a text is given exactly where it means what it says
--     ReadOrder       the checks of declarations
--     Jobs            THE THEOREM: the job of a formula is well formed, and its left stands for the formula's term
--     Demands         THE DEMANDS
--     Examples        the examples
pub mod KnownNames
pub mod LocalSorts
pub mod TypingExactly
pub mod TermSorts
pub mod Records
pub mod SmallRecords
pub mod Nesting
pub mod Answers
pub mod ReadOrder
pub mod Jobs
pub mod Demands
pub mod Examples
