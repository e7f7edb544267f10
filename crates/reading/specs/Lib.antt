-- What a text is read as, beside declarations (document 02, Req 01). Each file stands on those above it.
--     Called       names of declared symbols and variables
--     Typing       the term that a formula stands for, where it is well sorted (else 8)
--     Local        sorts without a stack: the sort by the head, each node tested by itself
--     WellSorted   which formulas are well sorted, in propositions
--     Records      the records of a term; how deep terms and formulas are nested
--     Reader       THE READER: declarations and a text to a job, or a refusal
--     Answers      what each answer to a text means, in propositions
--     Reading      the answer for all declarations, texts and lengths of the lent areas, and what is left there
--     ReadOrder    the one order of the checks of declarations, as one list
--     Examples     a table of worked examples
--     Demands      THE DEMANDS on the reader, as types: proofs/ has each under the same name
pub mod Called
pub mod Typing
pub mod Local
pub mod WellSorted
pub mod Records
pub mod Reader
pub mod Answers
pub mod Reading
pub mod ReadOrder
pub mod Examples
pub mod Demands
