pub mod OneSide
pub mod BySums
pub mod MergeMargin
pub mod MirroredMerge
