pub mod FinishLaws
