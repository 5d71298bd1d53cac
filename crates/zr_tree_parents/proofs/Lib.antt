mod Deeper
mod FirstChildren
mod Nearer
mod Offered
mod Settling
mod Upward
