pub mod MovingReady
