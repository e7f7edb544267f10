-- The writer: the paper's let expansion (source document 003, section 3), as document 01 lays it out. Each file stands on those above it.
--     Nodes          term numbers with what they stand for
--     Placed         terms looked up before they are appended: variables, applications, binders, lets
--     Names          which variables keep their names (Req 06)
--     Visit          THE VISITS, without limits, under either choice of names: what each appends, in order
--     NamesKept      what keeping names comes to: a rule without lets whose names are all kept is its own expansion
--     File           the file of a bundle
--     Answer         the two answers, and how the code gives them
--     Expansion      the answer for every choice, every job and all lengths of the lent areas, and what is left there
--     JobOrder       document 01's one order of the writer's checks, as one list
--     AreasAfter     what is left in the areas
--     ExampleFiles   the files of document 01's examples, as words
--     Examples       THE TWELVE EXAMPLES of document 01: one table, and the statement that every row is right
--     NameExamples   worked examples of Req 06
--     Demands        THE DEMANDS on the writer, as types: proofs/ has each under the same name
pub mod Nodes
pub mod Placed
pub mod Names
pub mod Visit
pub mod NamesKept
pub mod File
pub mod Answer
pub mod Expansion
pub mod JobOrder
pub mod AreasAfter
pub mod ExampleFiles
pub mod Examples
pub mod NameExamples
pub mod Demands
