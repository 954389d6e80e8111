mod Filled
mod Spelling
