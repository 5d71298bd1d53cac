mod InOrder
mod Others
