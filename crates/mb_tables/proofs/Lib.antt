mod OneCount
mod Following
mod Seen
mod Strokes
