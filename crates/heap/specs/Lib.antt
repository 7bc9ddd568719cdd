pub mod Frontier
pub mod Heap
pub mod Greedy
