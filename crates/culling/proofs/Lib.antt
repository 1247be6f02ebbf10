-- The tests on one node, the loop that decides, the bytes that are written, and the call.
pub mod NodeTests
pub mod DecidingLaws
pub mod FlagStores
mod CullCallLaws
