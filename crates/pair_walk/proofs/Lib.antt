-- Laws that the functions' proofs share. Each file stands on those above it.
--     FrameWords    frames in words: pushed, changed, read
--     Paths         a path's agenda, as its frames
--     ByKind        what is done with a pair by its kind
--     Finishing     what is left to do, frame by frame
--     Soundness     what is known of the frames, from turn to turn
--     CrossedLists  variables crossed on the way into bodies
--     Turning       a turn on the frame on top
--     Visiting      a walk at a pair
--     MorePairs     a walk with more pairs left
pub mod FrameWords
pub mod Paths
pub mod ByKind
pub mod Finishing
pub mod Soundness
pub mod CrossedLists
pub mod Turning
pub mod Visiting
pub mod MorePairs
