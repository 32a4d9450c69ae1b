mod Spelled
mod Fitting
mod Answering
