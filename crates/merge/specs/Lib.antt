pub mod SourcesFound
pub mod SourcesPass
pub mod MergeAccepted
