mod Examples
mod Ways
