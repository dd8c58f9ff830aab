pub mod LaterReady
