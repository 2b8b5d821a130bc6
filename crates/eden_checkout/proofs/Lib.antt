mod Settling
mod Planning
