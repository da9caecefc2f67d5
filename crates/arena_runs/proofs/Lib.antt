mod Log
mod Known
mod Change
mod Serving
mod Resizing
mod Marking
mod GoingBack
mod Running
