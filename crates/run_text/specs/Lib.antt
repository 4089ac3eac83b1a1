-- a text that replays a run
pub mod Replay
