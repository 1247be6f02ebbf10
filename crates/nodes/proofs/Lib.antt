-- A node that is to be added, and the calls that start and add.
pub mod DescribingLaws
pub mod AddingLaws
-- The calls that read.
pub mod ReadableLaws
pub mod QueryLaws
pub mod PathCalls
mod SiteSearch
-- The calls that set.
mod FlagLaws
mod SettingLaws
