-- An element put into a list, and parents; the rest of the guess has no laws, since nothing is proved
-- of what it finds.
pub mod PutInLaws
pub mod ParentLaws
