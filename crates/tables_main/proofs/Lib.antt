mod Looked
mod Mended
mod Fits
