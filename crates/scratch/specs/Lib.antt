-- The writer's scratch: a bundle in lent words. Each file stands on those above it.
--     Scratch   THE TIE: the bundle that the words stand for, each section at the place that the limits give
--     Stack     pairs of a result and a step on a lent stack
pub mod Scratch
pub mod Stack
