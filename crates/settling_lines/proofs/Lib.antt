mod Told
mod Examples
