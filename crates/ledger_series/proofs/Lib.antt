pub mod Fronts
mod Means
