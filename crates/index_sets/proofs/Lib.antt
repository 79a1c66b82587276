mod Gaps
mod SetBits
mod BitCounts
