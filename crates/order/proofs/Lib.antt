mod Reading
mod Receiving
mod Storing
