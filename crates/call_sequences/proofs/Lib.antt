-- What each call keeps of a graph that question 2 passes, and of an arena that does.
-- KeepEncodable.antt has both for every call.
pub mod KeptFits
pub mod AddingKeeps
mod OrderingKeeps
mod CullingKeeps
mod ErasingKeeps
pub mod DeepeningKeeps
pub mod ReadingKeeps
mod SettingKeeps
mod ArenaBytes
pub mod KeepEncodable
-- What the two calls on erase sets leave of an arena.
pub mod ErasedArenas
-- The arenas that lists of calls leave, and demand 3 of them.
mod StepGraphs
mod ReachedArenas
pub mod Demand3Proof
mod Demand3Examples
-- What ties demand 3 to the code.
pub mod StepTies
