pub mod PairLaws
pub mod ReadLaws
