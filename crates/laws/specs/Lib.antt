-- Demand 3: what it asks of a graph, and the claim about every list of calls on graphs.
pub mod Demand3Clauses
pub mod GraphDemand3
