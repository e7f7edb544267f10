-- Laws and theorems. Each file stands on those above it.
--     KeptNames         which variables keep their names
--     Grown             a visit only appends
--     AppendedChecked   appends keep a bundle checked
--     Placement         terms looked up, and appended where they are not found
--     Mentioned         variables that an entry of a context mentions
--     Substitution      contexts of the visits: images are results, which hold no let and whose free variables are their own images
--     Conclusions       steps that a visit appends: each is an instance of its rule, its sides in scope
--     Standing          nodes that stand for terms of a bundle
--     Falling           numbers fall from a node to its parts; its binders and lets are terms of the job
--     Induction         THE INDUCTION: what each visit leaves
--     Derived           THE WRITER'S THEOREM, on bundles
--     Itself            a rule without lets all of whose bound variables are kept is its own expansion
--     SmallNumbers      bundles all of whose numbers are words of 32 bits
--     Files             the file of a bundle reads back
--     SmallWords        all numbers of the bundle that is written are words of 32 bits
--     JobOrder          the writer's first fault is the first failing check of the one ordered list
--     AreasAfter        what a call leaves once the zeros are written
--     JobChecks         a file is written exactly for well-formed closed jobs that fit; what is left in the areas
--     JobSizes          how large the number and the record of a refused job can be
--     Demands           THE DEMANDS
--     Examples          THE TWELVE EXAMPLES of document 01
--     NameExamples      the worked examples of Req 06
pub mod KeptNames
pub mod Grown
pub mod AppendedChecked
pub mod Placement
pub mod Mentioned
pub mod Substitution
pub mod Conclusions
pub mod Standing
pub mod Falling
pub mod Induction
pub mod Derived
pub mod Itself
pub mod SmallNumbers
pub mod Files
pub mod SmallWords
pub mod JobOrder
pub mod AreasAfter
pub mod JobChecks
pub mod JobSizes
pub mod Demands
pub mod Examples
pub mod NameExamples
