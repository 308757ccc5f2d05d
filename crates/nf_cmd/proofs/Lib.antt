mod Common
mod Rows
mod WalkRows
mod LevelRows
mod Requests
mod RunsLemmas
mod Examples
