pub mod OpeningReady
