mod Coming
mod Telling
