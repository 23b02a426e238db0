mod Walks
mod Searching
