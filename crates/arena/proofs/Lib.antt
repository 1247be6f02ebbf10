-- The laws of the layout: what each part and field is after `encode`, that `encode` and `decode`
-- undo each other, how stores come to be an encoding, and what question 2 means. Then what the
-- functions' proofs cite, and for callers an order stored, the fields of a slot and a part of a
-- record stored.
pub mod TabulateLaws
pub mod ChainLaws
pub mod Encodable
pub mod ArenaParts
pub mod ArenaFields
pub mod ArenaLaws
pub mod ArenaHolds
pub mod HeldArenas
pub mod ArenaBack
pub mod HeldEncodable
pub mod EncodeSteps
pub mod ArenaExact
pub mod ArenaExamples
mod StoreLaws
pub mod StoredEntries
pub mod SlotLaws
pub mod ReadNodes
pub mod RecordStores
