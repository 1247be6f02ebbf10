-- What the functions' proofs cite.
mod ByteLaws
