-- One site, question 7, and what is stored.
mod DeepenedSites
mod DeepenedFits
mod EncodeDeepened
mod EncodeSeeded
-- The calls.
pub mod ChildNameLaws
