-- Laws. Each file stands on those above it.
--     Marks     the mark of a variable, term by term; THE LAW: it is "once" exactly of a kept variable
--     KeptAs    only a variable of the job is kept: so what is kept is known by the numbers up to the limit
pub mod Marks
pub mod KeptAs
