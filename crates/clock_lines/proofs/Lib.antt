mod Any
mod Examples
