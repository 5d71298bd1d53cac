mod Asking
mod Answered
mod Sending
mod Opening
mod Stepping
mod Running
